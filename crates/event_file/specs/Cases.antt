pub mod EventFile
