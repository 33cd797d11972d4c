mod Comings
mod Entries
mod Lines
mod Shelves
mod Steps
