mod Known
mod Rows
mod Steps
