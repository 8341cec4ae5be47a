pub mod ThroughDoor
