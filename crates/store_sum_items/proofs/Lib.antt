pub mod FormsAgree
