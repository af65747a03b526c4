mod Goings
mod Keepings
mod Reporting
mod Calling
