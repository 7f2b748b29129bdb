-- helper
mod Spelling
-- written from texts/
mod Spelled
