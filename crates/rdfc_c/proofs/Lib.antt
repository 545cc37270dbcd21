mod Words
mod Told
mod LentForms
