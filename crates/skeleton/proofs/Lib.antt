mod Links
mod Listing
mod Seeking
