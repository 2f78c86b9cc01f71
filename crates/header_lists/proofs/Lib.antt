mod Filters
mod Values
mod Placed
