mod Runs
mod Rows
