mod Registered
mod Fronts
mod Followed
