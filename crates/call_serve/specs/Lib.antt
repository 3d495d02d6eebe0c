-- What serving the input comes to.
pub mod Serving
