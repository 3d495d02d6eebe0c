-- The bits of a word (Bits), the assignment that words hold (Assigned), literals by their sign (Sets), what is made true (Made), what differs (Counted), a
-- literal that is read (Reading).
pub mod Bits
pub mod Assigned
pub mod Sets
pub mod Made
pub mod Counted
pub mod Reading
