mod Queued
mod Orders
