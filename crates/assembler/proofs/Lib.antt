mod Bytes
mod Stores
mod Tables
mod Digits
mod Text
mod Most
mod Rest
mod Assembled
