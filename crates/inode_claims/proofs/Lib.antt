mod Keeps
mod Closing
