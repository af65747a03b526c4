mod Leading
mod Turning
mod Holding
