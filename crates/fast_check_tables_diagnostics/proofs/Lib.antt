mod Copies
mod OtherKinds
