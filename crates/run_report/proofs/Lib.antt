mod Left
mod Lines
