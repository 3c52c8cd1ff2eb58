pub mod Measures
pub mod Fields
pub mod Tables
pub mod Laying
