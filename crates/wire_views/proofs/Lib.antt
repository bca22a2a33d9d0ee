mod Bodies
mod Past
mod Whole
mod Passed
mod Bypassed
mod Fronts
mod Written
mod Drafted
