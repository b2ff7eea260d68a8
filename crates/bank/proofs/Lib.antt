mod Jobbed
mod Bagged
mod Submitting
mod Finishing
mod Picks
