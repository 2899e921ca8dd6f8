pub mod BothOrNeither
pub mod FieldsGoneThrough
pub mod InOrder
pub mod InPlace
