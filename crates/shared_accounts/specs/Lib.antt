pub mod Accounts
