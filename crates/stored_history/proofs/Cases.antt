pub mod BytesKept
