mod PutBack
mod Splice
mod Flat
mod Top
