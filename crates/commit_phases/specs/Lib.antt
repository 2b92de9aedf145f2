pub mod Goes
pub mod Layouts
pub mod Phases
pub mod Table
pub mod laws
