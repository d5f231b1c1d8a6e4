mod Before
mod Kept
mod Known
mod Running
mod Spelled
mod Splitting
