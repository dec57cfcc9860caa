mod Counting
mod FirstLine
mod Sampled
