pub mod LoadDocument
