mod Unmade
