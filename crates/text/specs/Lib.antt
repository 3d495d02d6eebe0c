-- Texts of any bytes: their lines and words (Words), and what is said of places in them (Places).
pub mod Words
pub mod Places
