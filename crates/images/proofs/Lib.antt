mod Zeros
mod Walks
mod Explained
mod Heads
mod Laws
mod Turning
mod TurnedImages
