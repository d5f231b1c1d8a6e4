mod Binary
mod Commas
mod Glyphs
mod Numbered
