pub mod EachAt
