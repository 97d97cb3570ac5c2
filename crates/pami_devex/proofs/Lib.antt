pub mod Reweighed
