pub mod RangesMoved
