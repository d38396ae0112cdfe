mod Entered
mod Plain
mod Starts
