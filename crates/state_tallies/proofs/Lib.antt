mod Counting
mod States
