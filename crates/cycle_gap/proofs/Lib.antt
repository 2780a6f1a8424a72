mod Ends
mod Joining
mod Weaving
