pub mod Words
pub mod Tables
pub mod Laying
pub mod Catalogue
