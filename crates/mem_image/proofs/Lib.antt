pub mod AccessLines
pub mod Agreement
mod AreaBytes
pub mod Inside
pub mod Laws
pub mod Lengths
pub mod LineBuffers
mod NumberBytes
pub mod Placed
mod Records
pub mod SeenBytes
mod Spliced
pub mod ViewBytes
pub mod OneByte
pub mod Views
pub mod WholeOpening
pub mod Words
