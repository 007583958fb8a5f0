pub mod Controllers
