pub mod RelinkedTable
pub mod Relinking
