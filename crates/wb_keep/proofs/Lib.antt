pub mod Disks
mod Appending
mod Batches
mod Closing
mod Crash
mod Feeds
mod InPlace
mod Reading
mod Repair
mod Runs
mod Steps
