mod Phis
mod Tables
