pub mod IssuedList
