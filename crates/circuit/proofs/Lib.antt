mod Adjoint
mod Ideal
mod Dividing
mod Walking
