pub mod Building
mod Sending
mod WholePictures
