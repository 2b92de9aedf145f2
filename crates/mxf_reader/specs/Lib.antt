pub mod Catalogues
pub mod Calls
pub mod inner
