pub mod FormedGraphs
