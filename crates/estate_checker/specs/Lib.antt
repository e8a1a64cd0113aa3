pub mod Judged
pub mod Printed
pub mod Rules
pub mod Said
