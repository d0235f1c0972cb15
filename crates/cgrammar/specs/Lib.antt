pub mod Grammar
pub mod Kind
pub mod Terminal
pub mod Text
