mod Named
mod Turns
mod LastRows
