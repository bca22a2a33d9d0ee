mod Told
mod Keying
mod Reporting
mod Ending
