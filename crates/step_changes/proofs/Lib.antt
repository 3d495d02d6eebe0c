-- What an acceptance leaves for the writers, and how judgment and write make an application.
pub mod Passing
