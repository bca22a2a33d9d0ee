mod Firsts
mod Knowing
mod Loads
mod Nexts
mod Staying
