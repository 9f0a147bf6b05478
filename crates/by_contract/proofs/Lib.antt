mod Composed
mod OfFiles
