mod InOrder
mod Told
