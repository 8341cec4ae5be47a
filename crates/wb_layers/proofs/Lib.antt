mod Placed
mod Together
mod Shown
mod Families
